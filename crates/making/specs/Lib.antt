-- What is made of a text: the file, its warnings or its faults.
pub mod Lines
pub mod Made
