pub mod Filling
pub mod Answered
pub mod Answering
