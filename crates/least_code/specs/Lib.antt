-- Definitions.
pub mod Starting
-- Laws over them.
pub mod Degrees
pub mod SearchStarts
pub mod SearchStartCalls
