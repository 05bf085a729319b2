-- Definitions.
pub mod Lent
pub mod Parts
pub mod PutRecords
-- Laws over them.
pub mod Tests
pub mod Lists
pub mod Counting
pub mod Orders
pub mod CommonFronts
pub mod Rows
pub mod Grids
pub mod Minimum
pub mod Rising
pub mod Passing
pub mod Selections
pub mod Decides
pub mod FirstSeen
pub mod Masks
pub mod LowestBits
pub mod PutRecordLaws
pub mod PartLaws
