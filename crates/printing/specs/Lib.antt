-- What is printed for a file, and the buffer that holds the front of an input.
pub mod Lines
pub mod Front
