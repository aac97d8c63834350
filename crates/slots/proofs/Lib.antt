pub mod Reading
pub mod Writing
pub mod Sounds
pub mod Entries
pub mod Made
pub mod Goodness
mod Worked
