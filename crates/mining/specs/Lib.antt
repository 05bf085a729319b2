-- Definitions.
pub mod UsualSettings
pub mod CatalogueSays
pub mod CheckSays
-- Laws over them.
pub mod SettingsLaws
pub mod WriteLaws
pub mod ListCheckLaws
