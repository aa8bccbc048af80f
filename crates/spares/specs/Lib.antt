-- What is rated of the places of a stretch, and the highest of it.
pub mod Highest
pub mod Places
