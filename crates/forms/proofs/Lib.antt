-- The laws of forms.
pub mod Filling
