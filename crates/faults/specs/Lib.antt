-- How a fault of a typed text is told.
pub mod Wanted
pub mod Told
pub mod Lines
