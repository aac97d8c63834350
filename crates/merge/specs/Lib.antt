pub mod Merging
pub mod Steps
