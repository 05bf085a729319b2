-- Definitions.
pub mod Joined
pub mod Reached
-- Laws over them.
pub mod JoinedLaws
pub mod ReachedLaws
