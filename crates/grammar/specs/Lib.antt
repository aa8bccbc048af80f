-- A text that lists a deck: its lines and words, its numbers, the grammar of a line, and the deck or the faults of the whole.
pub mod Words
pub mod Numbers
pub mod Grammar
pub mod Line
pub mod Text
pub mod Stands
pub mod Reads
