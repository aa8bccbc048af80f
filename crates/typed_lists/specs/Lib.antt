-- What arrays hold of a text.
pub mod Lists
pub mod Told
