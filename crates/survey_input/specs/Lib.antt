-- Definitions.
pub mod ReadingInput
pub mod ReadAnswers
-- Laws over them.
pub mod ReadingInputLaws
pub mod ReadAnswerLaws
