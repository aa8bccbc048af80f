-- What the words of deckstate say, and what it prints.
pub mod Words
pub mod Lines
