pub mod Reading
pub mod Ranges
pub mod Parts
pub mod Effective
pub mod Worked
