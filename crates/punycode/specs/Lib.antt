pub mod Punycode
pub mod Steps
