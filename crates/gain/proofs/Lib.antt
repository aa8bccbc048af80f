-- The gain's refusals, why the call's ratings are not refused, and its outcome.
pub mod Refused
pub mod Asking
pub mod Outcome
