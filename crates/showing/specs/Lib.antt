pub mod Showing
pub mod Answers
