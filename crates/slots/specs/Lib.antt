pub mod Slot
pub mod Facts
pub mod Entry
