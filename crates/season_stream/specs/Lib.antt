-- What is held of a season's stream.
pub mod Reading
