-- The laws of words, of lists filled with them, of rooms lent twice, and of a run of cases.
pub mod Spelling
pub mod Beginning
pub mod Lent
pub mod Run
