-- The theorems about what a file asks for.
pub mod Asking
pub mod Examples
