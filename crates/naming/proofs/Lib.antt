-- The laws of the fans that a word names.
pub mod Spelling
mod Parts
