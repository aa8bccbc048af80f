-- What the shared refusals are called in contracts.
pub mod Shared
