-- Definitions.
pub mod Texts
pub mod Writing
-- Laws over them.
pub mod Examples
pub mod Numbers
pub mod TextLaws
pub mod WritingLaws
