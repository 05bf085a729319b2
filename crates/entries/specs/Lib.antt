-- Definitions.
pub mod Heads
pub mod ListOutcomes
pub mod Written
-- Laws over them.
pub mod WrittenLaws
