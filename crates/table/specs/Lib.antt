pub mod Table
pub mod Entries
pub mod Slotwise
pub mod Tagged
