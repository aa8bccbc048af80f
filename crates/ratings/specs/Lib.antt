-- What C gets: the answer as one number, and the working table.
pub mod Outcome
