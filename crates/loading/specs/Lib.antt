-- What the loading computer's calls cite: their outcomes.
pub mod Outcome
