-- The laws that the functions' proofs share, here and in the count table.
pub mod Cells
pub mod From
pub mod InARow
pub mod Filling
