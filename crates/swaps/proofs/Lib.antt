-- A swap in a copy of the stretch, two ratings of it, and the outcome of a call that compares two.
pub mod Replaced
pub mod Compared
