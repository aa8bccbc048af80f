-- What is known of a case that is whole.
pub mod Whole
