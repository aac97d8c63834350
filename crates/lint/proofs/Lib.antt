pub mod Passing
pub mod Calling
pub mod Outcomes
