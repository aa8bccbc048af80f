-- What the bins' contracts cite: `Bins` says what the working table holds of them, `Cells` what its cells hold, `From` what is counted.
pub mod Cells
pub mod From
pub mod Bins
