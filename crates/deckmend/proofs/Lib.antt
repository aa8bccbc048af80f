-- The laws of what deckmend writes.
mod Lengths
mod Whole
