-- The laws of the report.
mod Lengths
