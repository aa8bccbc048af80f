-- One change, what looking at a file answers, what mending answers and leaves, what it makes of a file that needs none, and the places that it never changes.
pub mod Change
pub mod Looked
pub mod Outcome
pub mod Fixed
