-- Definitions.
pub mod Returns
-- Laws over them.
pub mod FaultyDrawings
