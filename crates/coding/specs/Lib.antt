-- Definitions.
pub mod LeastSays
pub mod CodeDrawing
-- Laws over them.
pub mod LeastSaysLaws
pub mod CodeDrawingLaws
