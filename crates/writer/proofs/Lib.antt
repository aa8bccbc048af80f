-- The laws of the writer, from the ground up, and what is promised of it.
pub mod Laying
pub mod Writable
pub mod Checks
pub mod Parts
pub mod Outcome
pub mod Back
