pub mod Pieces
pub mod Places
