pub mod Printout
pub mod Parts
