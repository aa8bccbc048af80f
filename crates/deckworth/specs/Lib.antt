-- What deckworth prints.
pub mod Lines
