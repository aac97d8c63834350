pub mod Blanks
pub mod Nexts
