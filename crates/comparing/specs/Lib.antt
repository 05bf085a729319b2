-- Definitions.
pub mod Comparing
-- Laws over them.
pub mod ComparingLaws
