-- Definitions.
pub mod Cases
-- Laws over them.
pub mod Starred
