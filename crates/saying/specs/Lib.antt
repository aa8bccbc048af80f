-- What a program says of its words.
pub mod Said
