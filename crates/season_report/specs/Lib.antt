-- What the season report says.
pub mod Lines
