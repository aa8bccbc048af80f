-- The laws that the functions' proofs share, and `Outcome`: the contract allows one outcome.
pub mod ByNumber
pub mod Apart
pub mod Adding
pub mod Entries
pub mod Call
pub mod Outcome
