-- What the office's calls cite: their outcomes.
pub mod Outcome
