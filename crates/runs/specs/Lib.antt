-- What the contracts of kinds 4 and 5 cite.
pub mod Runs
