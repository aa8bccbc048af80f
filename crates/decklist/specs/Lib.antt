-- What decklist is asked for, and what it prints.
pub mod Lines
