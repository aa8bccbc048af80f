-- A file's lists in arrays of fixed length.
pub mod Padded
