-- What is worked of a stretch, and what a call leaves of the table that it was lent.
pub mod Outcome
