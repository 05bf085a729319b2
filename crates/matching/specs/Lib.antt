-- Definitions.
pub mod MatchAnswers
-- Laws over them.
pub mod MatchAnswerLaws
pub mod MatchPromise
pub mod Outcomes
pub mod MatchProved
