-- Definitions.
pub mod Readings
-- Laws over them.
pub mod PathLaws
pub mod ReadingLaws
pub mod StepLaws
