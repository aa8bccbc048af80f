-- The theorems about the layout, from the ground up.
pub mod Under
pub mod Numbers
pub mod Versions
pub mod Header
