-- What the verdict's contracts cite: `Judged` is the public call's, Pairs what kind 8's functions are handed.
pub mod Outcome
pub mod Pairs
