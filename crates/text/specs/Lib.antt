-- Texts as lists of bytes, and how they come to stand in a buffer.
pub mod Decimal
pub mod Lines
pub mod Put
pub mod Added
