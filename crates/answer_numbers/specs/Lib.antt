-- Definitions.
pub mod Packed
-- Laws over them.
pub mod PackedLaws
