-- The laws of a refusal's words, and of what is looked through for its cause.
pub mod Scanning
pub mod Worded
