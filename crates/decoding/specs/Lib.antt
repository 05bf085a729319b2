-- Definitions.
pub mod Decoding
-- Laws over them.
pub mod DrawnLaws
pub mod DecodingLaws
