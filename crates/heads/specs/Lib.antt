pub mod Head
pub mod Facts
pub mod Entry
