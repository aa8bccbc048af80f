-- The part of the lists that is rated, and the lent table as a call leaves it.
pub mod Part
pub mod Used
