-- The refusals of a rating, as the code works them out.
pub mod Refused
