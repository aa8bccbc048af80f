-- Forms filled in, and the bound that what is put keeps.
pub mod Within
pub mod Form
