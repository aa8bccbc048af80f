-- The answers that one number carries.
pub mod Packing
