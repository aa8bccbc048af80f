-- The laws of places, of what stands there, and of the step of both ends.
pub mod Cells
pub mod Values
pub mod Steps
