-- How long a verdict case is.
pub mod Case
