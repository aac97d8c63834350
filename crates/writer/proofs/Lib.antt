pub mod Parts
pub mod Placing
pub mod Fitting
pub mod Worked
