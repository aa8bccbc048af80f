-- The laws of texts that are the same, of words against the table, and of what is heard.
pub mod Texts
pub mod Table
pub mod Heard
