-- What is printed of the best two places.
pub mod Rated
pub mod Line
