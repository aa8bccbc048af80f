-- The figures that go out are within 2^30, and two outcomes of the call are one.
pub mod Outcome
