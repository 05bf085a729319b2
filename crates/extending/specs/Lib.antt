-- Definitions.
pub mod HeldCode
-- Laws over them.
pub mod HeldCodeLaws
pub mod AppendLaws
pub mod NextRecordLaws
