-- The theorems about lists in arrays.
pub mod Lists
