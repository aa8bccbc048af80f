-- The laws of what is fed.
pub mod Empty
pub mod Going
pub mod Feeding
pub mod Handed
