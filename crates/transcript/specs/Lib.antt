-- Definitions.
pub mod Calls
pub mod CallAnswers
