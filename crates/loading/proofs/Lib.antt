-- The laws of the loading computer's calls: that one number carries every answer, and the ends of a worth.
pub mod Packed
pub mod Told
