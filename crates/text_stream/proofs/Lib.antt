-- The laws of what is fed.
pub mod Pieces
