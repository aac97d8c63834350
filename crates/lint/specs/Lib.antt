pub mod Linting
pub mod Stages
