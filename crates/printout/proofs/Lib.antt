pub mod Placing
pub mod Lines
pub mod Room
pub mod Printing
mod Worked
