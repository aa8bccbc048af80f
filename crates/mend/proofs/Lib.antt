-- The theorems about mending a deck file, from the ground up.
pub mod Checks
pub mod Mendable
pub mod Looking
pub mod Putting
pub mod Kept
pub mod Mended
pub mod Fields
pub mod Heading
pub mod Front
pub mod Outcome
pub mod Examples
