pub mod Coding
pub mod Dating
