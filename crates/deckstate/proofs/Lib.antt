-- The laws of the lines, of the words, and of what is printed for a file and its words.
mod Lengths
mod Spelling
mod Words
mod Whole
