-- That every rating can be packed, and that the number tells it.
pub mod Packed
