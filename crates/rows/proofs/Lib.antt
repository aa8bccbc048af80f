-- The laws of kinds 1 to 3, of a level, and of a row that is worked out of another.
pub mod Early
pub mod Climbs
pub mod Levels
