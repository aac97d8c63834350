pub mod Telling
pub mod Meaning
