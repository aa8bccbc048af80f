-- A deck in words.
pub mod Numbers
pub mod Rule
pub mod Lines
