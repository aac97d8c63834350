pub mod Message
pub mod Lent
pub mod Answers
