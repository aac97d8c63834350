pub mod Forming
pub mod Ascii
pub mod Cutting
pub mod Growing
pub mod Writing
