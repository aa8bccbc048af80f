-- The laws of a rule's row and of what a deck's words take at most; examples.
mod Rows
mod Examples
pub mod Back
pub mod Phrases
pub mod Walks
pub mod Systems
pub mod Again
pub mod Reread
pub mod Lengths
