-- What the step's proofs share.
pub mod Laws
pub mod Shares
pub mod Making
pub mod Rows
pub mod Debts
pub mod Halves
