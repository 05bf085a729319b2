-- Definitions.
pub mod Drawings
pub mod DrawingCables
pub mod Surveys
pub mod Codes
pub mod Catalogued
pub mod ListsChecked
-- Laws over them.
pub mod Refusals
pub mod RefusalLaws
pub mod ByteLaws
pub mod CableLaws
pub mod DrawingLaws
