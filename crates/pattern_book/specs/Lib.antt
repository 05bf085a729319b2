-- Definitions.
pub mod BookSays
-- Laws over them.
pub mod BookWritten
