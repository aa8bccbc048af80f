-- Why the call's ratings are not refused, its outcome, and that a fan is worth no less than 0 at its upper end.
pub mod Asking
pub mod Outcome
pub mod Better
