-- The parts of a rating's refusals.
pub mod Parts
