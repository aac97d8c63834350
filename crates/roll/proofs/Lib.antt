pub mod Rolls
pub mod Index
pub mod Room
pub mod Growing
mod Adding
mod Looking
mod Worked
