-- The laws of a file's answers: the refusal before a system's own, and the figures within the unit.
pub mod Figures
pub mod Answers
