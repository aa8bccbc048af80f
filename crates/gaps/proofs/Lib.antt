-- The laws of kinds 6 and 7: the values of memories that owe, and the open clean ones.
pub mod Sharing
pub mod Paying
pub mod Reaching
pub mod Whole
