-- The laws that the functions' proofs cite, and that a promise settles its float.
pub mod Reading
pub mod Exactly
pub mod Judged
pub mod Cutting
pub mod Once
pub mod Lists
