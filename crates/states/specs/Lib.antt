-- The verdict on a state of a deck, and the places that a verdict can have.
pub mod States
pub mod Placed
