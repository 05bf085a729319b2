-- Definitions.
pub mod GrowthOutcomes
-- Laws over them.
pub mod PatternGrowth
pub mod CandidateWalk
pub mod ListsHanded
