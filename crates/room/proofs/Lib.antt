pub mod Beside
pub mod Meeting
pub mod Newcomers
