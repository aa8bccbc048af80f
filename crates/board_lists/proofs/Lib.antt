-- What the refusals of boards' lists share.
pub mod Laws
