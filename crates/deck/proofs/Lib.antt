-- The theorems about the deck file, from the ground up.
pub mod Systems
pub mod Sound
pub mod Checks
pub mod File
pub mod Outcome
pub mod Kept
