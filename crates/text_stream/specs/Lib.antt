-- What is held of a typed text.
pub mod Feeding
