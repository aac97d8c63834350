pub mod Fronts
pub mod Spreading
pub mod Updating
pub mod Delivering
