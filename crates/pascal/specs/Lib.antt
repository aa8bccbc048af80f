-- What an entry of Pascal's table counts, and how its rows are folded.
pub mod Ways
pub mod Folded
