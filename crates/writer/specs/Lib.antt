-- What the writer cites: bytes laid over a room, and its outcome.
pub mod Laid
pub mod Outcome
