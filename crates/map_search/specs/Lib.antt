-- Definitions.
pub mod MapSearch
-- Laws over them.
pub mod Outnumbered
pub mod FitLaws
pub mod MapSearchLaws
pub mod Guides
