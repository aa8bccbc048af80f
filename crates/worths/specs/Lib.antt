-- The worths that are drawn.
pub mod Worths
