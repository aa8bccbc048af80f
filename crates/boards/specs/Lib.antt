-- What the combination of boards cites.
pub mod Combining
