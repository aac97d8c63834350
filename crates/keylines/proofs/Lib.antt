pub mod Lengths
pub mod Laying
pub mod Joined
mod Worked
