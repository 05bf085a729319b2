-- Laws.
pub mod SurveyLaws
