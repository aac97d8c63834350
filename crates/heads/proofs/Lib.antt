pub mod Parts
pub mod Reading
pub mod Writing
pub mod RoundTrip
pub mod Conditions
pub mod Entries
pub mod Goodness
mod Worked
