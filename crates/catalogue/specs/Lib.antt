-- Definitions.
pub mod SurveyText
-- Laws over them.
pub mod SurveyTextLaws
pub mod PrintedOnce
