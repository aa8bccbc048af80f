-- What is known of listings.
pub mod Ends
pub mod Holding
pub mod Passing
pub mod Reading
pub mod TextEnd
pub mod Pieces
pub mod Handed
