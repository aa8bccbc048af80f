-- The laws of what is made.
pub mod Lengths
pub mod Filing
pub mod Saying
