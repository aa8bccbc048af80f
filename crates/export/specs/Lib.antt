-- What is answered of the figures that go out.
pub mod Outcome
