-- The call's outcome, that a better list is rated no lower, that kinds 1 to 7, and version 1, are answered as they were, and that the call for a
-- whole list, which it took the place of, answered as it does.
pub mod Outcome
pub mod Better
pub mod Earlier
pub mod FirstUnit
pub mod Whole
