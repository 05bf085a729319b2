-- Definitions.
pub mod Says
pub mod ListTexts
-- Laws over them.
pub mod SaysLaws
pub mod TextSizes
pub mod ListTextLaws
