-- How long a count case is.
pub mod Case
