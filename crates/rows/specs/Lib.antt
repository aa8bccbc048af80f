-- What the contracts of kinds 1 to 3 cite: what the kinds differ in, what is asked, and what two rows of the lent table hold.
pub mod Kinds
pub mod Level
