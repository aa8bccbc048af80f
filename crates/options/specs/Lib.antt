-- What words ask for, and texts that are the same.
pub mod Texts
pub mod Words
