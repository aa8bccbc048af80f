-- What the call answers and leaves.
pub mod Outcome
