pub mod Running
pub mod Telling
mod Worked
