-- The laws of kinds 4 and 5: the values of runs, and the open lead.
pub mod Falling
pub mod Whole
