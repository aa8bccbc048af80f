-- How long lines can be, that the figures in arrays are those of the stretch, what the groups of places mean, and groups in arrays.
pub mod Lengths
pub mod Same
pub mod Ranks
pub mod Grouping
pub mod Rounds
pub mod Whole
pub mod Surely
