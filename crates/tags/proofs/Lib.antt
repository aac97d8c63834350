pub mod Tagging
pub mod Among
mod Worked
