-- The best pair of places for two like spares, and what is known of the pairs tried so far.
pub mod Pairs
pub mod Tried
