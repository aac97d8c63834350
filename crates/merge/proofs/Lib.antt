pub mod Later
pub mod Parts
mod Worked
