-- The laws of input that is cut, of what is printed for it, and of lines one after another.
pub mod Front
pub mod Printed
pub mod Lined
