-- The law of the rating for C: two outcomes are one.
pub mod Outcome
