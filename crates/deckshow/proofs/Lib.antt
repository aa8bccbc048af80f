-- The laws of the lines of a file.
mod Lengths
mod Shown
pub mod Again
