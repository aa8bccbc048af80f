-- The line of the pair that leads, and how long a line can be.
pub mod Named
pub mod Lengths
