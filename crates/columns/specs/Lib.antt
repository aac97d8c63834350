pub mod Columns
pub mod Putting
