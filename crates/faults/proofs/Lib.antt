-- The laws of a text's lines, of the two tables of words, and of what a fault's line takes at most; examples.
mod Lines
mod Tables
mod Examples
pub mod Lengths
