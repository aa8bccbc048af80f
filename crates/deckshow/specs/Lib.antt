-- What deckshow prints.
pub mod Lines
