-- Definitions.
pub mod Searches
-- Laws over them.
pub mod SearchBest
pub mod SearchLaws
pub mod SearchWays
pub mod SearchCalls
