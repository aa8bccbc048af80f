-- Which numbers fit the layout's fields.
pub mod Fits
