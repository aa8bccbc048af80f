-- Document 01, in its own order: what is rated, the verdicts, the count table, the memory of a reading, boards, stretches, what is asked of a rating, refusals, the deck file, its writer, doubles, mending a file.
-- Lay it beside the document; every definition names the sentence or row that it writes down.
pub mod Below
pub mod State
pub mod Pairs
pub mod Verdict
pub mod Count
pub mod Memory
pub mod Figure
pub mod Boards
pub mod Stretch
pub mod Asked
pub mod Alike
pub mod Refusal
pub mod Accepted
pub mod Answer
pub mod Within
pub mod Worth
pub mod Better
pub mod Gain
pub mod File
pub mod Writing
pub mod Doubles
pub mod Mending
