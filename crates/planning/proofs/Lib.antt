-- What the call's proofs share, and its outcome.
pub mod Stretches
pub mod Outcome
