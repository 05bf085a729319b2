-- Definitions.
pub mod NextChosen
-- Laws over them.
pub mod NextChosenLaws
