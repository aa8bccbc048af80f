-- The figures are parts of the file's unit, two outcomes of the call are one, and for version 1 it is request 10's; the exact chance lies between the doubles.
pub mod Outcome
pub mod Spanning
