pub mod Tables
pub mod Groups
pub mod Places
pub mod Stepwise
pub mod Bringing
pub mod Looping
pub mod Results
pub mod Outcomes
mod Worked
