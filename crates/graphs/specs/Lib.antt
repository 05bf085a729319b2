-- Definitions.
pub mod Drawing
pub mod Map
pub mod Survey
pub mod Embedding
pub mod Graph
-- Laws over them.
pub mod MarkCounts
pub mod Cables
pub mod CraneCounts
pub mod FirstMarks
pub mod Simple
pub mod Embeddings
pub mod Isomorphisms
pub mod CountingCables
pub mod PartialMaps
pub mod FirstMap
pub mod LeastMap
pub mod Containment
pub mod ImageMarks
pub mod Connected
pub mod Sections
pub mod Patterns
pub mod DrawingBytes
pub mod AcceptedDrawing
pub mod AcceptedSurvey
pub mod CraneByte
