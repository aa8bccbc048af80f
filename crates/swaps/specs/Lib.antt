-- What a swap asks, a copy of a stretch, and what is answered and left where two ratings are compared.
pub mod Copied
pub mod Swapping
pub mod Compared
