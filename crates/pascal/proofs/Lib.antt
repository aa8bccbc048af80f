-- Counts of words, Pascal's rule for them, the table that holds them, and the whole table that held them before.
pub mod Every
pub mod Triangle
pub mod Folded
pub mod Whole
pub mod AsBefore
