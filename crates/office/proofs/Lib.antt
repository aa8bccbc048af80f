-- The laws of the office's call: one number carries every answer of the writer.
pub mod Packed
pub mod Doubles
