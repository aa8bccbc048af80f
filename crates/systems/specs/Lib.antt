-- What the figures of a system cite: a file's refusal before a system's own.
pub mod Opened
