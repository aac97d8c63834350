pub mod Brought
pub mod Calls
pub mod Fetching
