-- Laws of kind 8's room.
pub mod Asking
pub mod Stores
pub mod Lists
pub mod Working
pub mod Sorting
pub mod Levels
pub mod Whole
