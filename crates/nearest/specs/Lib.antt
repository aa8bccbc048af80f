-- The double nearest a fraction, and what its digits are worked out from.
pub mod Nearest
pub mod Raised
