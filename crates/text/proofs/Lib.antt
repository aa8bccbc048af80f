-- The laws of decimal digits, of texts in a buffer, and of signed numbers.
pub mod Digits
pub mod Adding
pub mod Signed
