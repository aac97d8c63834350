pub mod Searching
pub mod Checking
pub mod Holding
