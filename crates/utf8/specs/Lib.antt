pub mod Utf8
pub mod Lowering
pub mod Steps
