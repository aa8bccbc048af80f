-- What the contracts over places cite.
pub mod Cells
pub mod Map
