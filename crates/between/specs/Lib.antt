-- What is answered of a chance between two doubles.
pub mod Outcome
