pub mod Outcomes
pub mod Processing
pub mod Skipping
