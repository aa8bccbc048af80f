-- What the edges of a program cite.
pub mod Edges
pub mod Taken
pub mod Status
