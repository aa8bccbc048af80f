-- What is drawn of a system.
pub mod Drawn
