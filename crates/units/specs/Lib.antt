-- What the rounded step is handed.
pub mod Step
pub mod Share
pub mod Odds
pub mod Debt
