-- The laws that the functions' proofs cite, that a promise settles its float, and examples.
pub mod Raising
pub mod Shifting
pub mod Pattern
pub mod Values
pub mod Once
pub mod Examples
