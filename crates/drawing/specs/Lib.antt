-- The bounds that drawings keep.
pub mod Drawing
