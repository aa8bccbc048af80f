-- The theorems about the totals.
pub mod Chosen
pub mod Least
pub mod Spare
pub mod Sorted
pub mod Growing
pub mod Streams
pub mod Fronts
pub mod Examples
pub mod Complete
