-- Definitions.
pub mod Taking
-- Laws over them.
pub mod TakingLaws
