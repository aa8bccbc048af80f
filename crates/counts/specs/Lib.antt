-- What the count table's contracts cite: `Outcome` is the public call's; the others say what the working table and the room hold on the way.
pub mod Outcome
pub mod Ways
pub mod Sums
pub mod Tally
