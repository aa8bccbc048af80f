-- What deckspare prints.
pub mod Lines
