-- What deckmake writes.
pub mod Made
