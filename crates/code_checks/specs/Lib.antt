-- Definitions.
pub mod Answers
pub mod SectionChecks
-- Laws over them.
pub mod AnswerLaws
pub mod CheckLaws
pub mod SectionCheckLaws
