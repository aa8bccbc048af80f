-- What is promised of a float, by the own value that its bits spell.
pub mod Floats
