-- Where a file ends in a stream.
pub mod Ending
