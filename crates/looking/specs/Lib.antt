-- Definitions.
pub mod Looking
-- Laws over them.
pub mod LookingLaws
