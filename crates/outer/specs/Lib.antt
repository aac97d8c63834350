pub mod Outer
pub mod Answers
