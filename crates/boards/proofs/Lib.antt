-- The laws of the combination, as the program works it.
pub mod Working
