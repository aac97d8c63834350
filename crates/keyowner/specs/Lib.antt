pub mod Owners
pub mod Answers
