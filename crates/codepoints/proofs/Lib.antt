pub mod Bounds
pub mod Reading
pub mod Walking
pub mod Encoding
