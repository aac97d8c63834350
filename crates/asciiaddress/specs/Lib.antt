pub mod Ascii
pub mod Answers
