-- Definitions.
pub mod GrownCode
pub mod OwnTies
pub mod ClearlyLeast
-- Laws.
pub mod FrontLaws
pub mod OwnStartLaws
pub mod OwnTieLaws
pub mod ClearlyLeastLaws
