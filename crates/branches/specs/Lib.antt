-- Definitions.
pub mod Branches
pub mod Extensions
pub mod Ways
pub mod NextRecords
-- Laws over them.
pub mod InPlaceLaws
pub mod ExtensionLaws
pub mod WayLaws
