-- Why the program's memories read as document 01's.
pub mod Living
pub mod Sums
pub mod Runs
pub mod Owing
pub mod Opening
pub mod Moves
pub mod Patterns
