-- What a text's lines list, held in arrays.
pub mod Ending
pub mod Holds
pub mod Lines
