-- What figures are in percent.
pub mod Percent
