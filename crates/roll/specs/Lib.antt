pub mod Roll
pub mod Index
pub mod Growing
