pub mod Looking
pub mod Answers
