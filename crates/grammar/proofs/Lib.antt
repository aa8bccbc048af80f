-- What is known of texts.
pub mod Examples
pub mod Walking
pub mod Reading
pub mod Parts
pub mod Ways
pub mod Rows
pub mod Bounds
pub mod Whole
pub mod LineExamples
pub mod Letters
pub mod Listing
pub mod Accepted
pub mod Versions
