pub mod Writing
pub mod Steps
