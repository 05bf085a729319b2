-- Definitions.
pub mod Records
-- Laws over them.
pub mod RecordLaws
