-- The laws of the listing of a file.
mod Lengths
mod Halves
