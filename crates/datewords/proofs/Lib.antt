pub mod Opened
pub mod Digits
pub mod Naming
pub mod Meant
pub mod Finding
pub mod Large
