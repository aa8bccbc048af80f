-- The laws of what is read.
pub mod Counted
mod Took
