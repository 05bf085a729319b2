-- Definitions.
pub mod Book
pub mod SmallRecords
-- Laws over them.
pub mod RecordLabels
pub mod SmallFamily
pub mod NumberedRecords
pub mod SmallNext
pub mod Books
pub mod BookSettings
pub mod BookCount
