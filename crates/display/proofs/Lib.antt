pub mod Displaying
pub mod Outcomes
