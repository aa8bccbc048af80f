-- The laws of a state's bits and of the places of a verdict.
pub mod Bits
pub mod Places
