pub mod Tokens
pub mod Answers
