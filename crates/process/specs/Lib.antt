pub mod Processing
pub mod Stages
