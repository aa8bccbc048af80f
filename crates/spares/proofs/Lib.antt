-- Why the ratings of a stretch's places are not refused, and one place more; what the highest of them is.
pub mod Highest
pub mod Rating
