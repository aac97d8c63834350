pub mod List
pub mod Answers
