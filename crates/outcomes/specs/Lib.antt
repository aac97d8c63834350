pub mod Claims
pub mod Outcomes
pub mod OutcomesInC
pub mod Skipping
