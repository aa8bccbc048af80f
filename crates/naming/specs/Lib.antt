-- The fans that a word names.
pub mod Named
