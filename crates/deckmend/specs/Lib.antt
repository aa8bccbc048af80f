-- What deckmend writes, and what is said of a whole input by its front.
pub mod Lines
pub mod Whole
