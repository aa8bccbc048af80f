-- What the case files' contracts cite: rooms, lists that are filled, the words of a file, cases, and tables.
pub mod Rooms
pub mod Begins
pub mod Words
pub mod Cases
pub mod Tables
