pub mod Labels
pub mod Answers
