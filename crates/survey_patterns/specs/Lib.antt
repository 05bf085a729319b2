-- Definitions.
pub mod SurveyMined
-- Laws over them.
pub mod SurveyMinedLaws
