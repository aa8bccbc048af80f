-- Windows as masked words, kind 8's pairs, the place of an answer, and what the verdict's contract settles.
pub mod Windows
pub mod InRange
pub mod Placed
pub mod Outcome
