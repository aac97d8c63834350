pub mod Base64
pub mod Tables
pub mod Alphabetic
