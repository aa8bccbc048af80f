-- What the contracts of kind 8's room cite: what is asked, the lists of patterns, and what two sides of the lent table hold.
pub mod Asked
pub mod Groups
pub mod Row
