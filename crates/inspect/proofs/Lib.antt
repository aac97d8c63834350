pub mod Tables
pub mod Showing
