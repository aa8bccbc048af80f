-- What the refusals of boards' lists are called in contracts.
pub mod Refused
