pub mod Digits
pub mod Seeking
pub mod Passing
pub mod Rounds
pub mod Coding
