-- What the contracts of kinds 6 and 7 cite.
pub mod Gaps
