pub mod Slots
pub mod Scanning
pub mod Lowest
pub mod Judging
pub mod Finding
pub mod Keeping
pub mod Entries
pub mod Replaced
pub mod Tags
mod Worked
pub mod Broken
