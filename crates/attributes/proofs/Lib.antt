pub mod Parts
pub mod Finding
pub mod Trimming
pub mod Cutting
pub mod Naming
pub mod Stepping
pub mod Elements
pub mod Joined
