-- Definitions.
pub mod Requests
pub mod BookText
-- Laws over them.
pub mod RequestLaws
pub mod BookTextLaws
