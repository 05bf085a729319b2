-- Definitions.
pub mod Tables
pub mod RangeTests
-- Laws over them.
pub mod TableLaws
pub mod CodeRows
pub mod CodeCables
pub mod TableOfCode
pub mod TableOfDrawing
