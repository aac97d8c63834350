pub mod Advice
pub mod Places
