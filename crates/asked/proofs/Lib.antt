pub mod Naming
pub mod Finding
pub mod Single
pub mod Addressed
pub mod KeyData
