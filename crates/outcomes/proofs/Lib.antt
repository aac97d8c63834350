pub mod Contracts
pub mod Outcomes
pub mod Skipping
