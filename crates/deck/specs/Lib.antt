-- What a file's head says, what opening a file answers, and which decks a file can hold.
pub mod Head
pub mod Outcome
pub mod Bounds
