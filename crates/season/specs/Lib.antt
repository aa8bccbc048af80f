-- How season ends.
pub mod Status
