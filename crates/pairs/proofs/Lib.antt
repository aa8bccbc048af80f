-- One pair more, the pair that leads when all are tried, figures within the unit, and pairs by hand.
pub mod Trying
pub mod Pairs
pub mod Rating
pub mod Examples
