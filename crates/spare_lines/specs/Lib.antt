-- The places of a stretch from the best on, and what is printed of a system.
pub mod Ranks
pub mod Lines
pub mod Best
pub mod System
