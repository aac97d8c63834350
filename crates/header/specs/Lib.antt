pub mod Header
pub mod Answers
pub mod Lines
pub mod Blocks
