pub mod Attribute
pub mod Step
pub mod Answers
pub mod Steps
