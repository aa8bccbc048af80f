-- The laws of figures in percent.
pub mod Enclosing
pub mod Digits
