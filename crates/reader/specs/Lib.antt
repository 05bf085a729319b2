-- Definitions.
pub mod Readers
-- Laws over them.
pub mod ReaderLaws
