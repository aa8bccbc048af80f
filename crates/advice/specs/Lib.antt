-- Refusals in words, and what to do about them.
pub mod Words
pub mod File
pub mod System
