-- Definitions.
pub mod SmallWalk
-- Laws over them.
pub mod TriedLaws
pub mod SmallGrowth
