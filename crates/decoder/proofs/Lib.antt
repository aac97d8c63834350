pub mod Fronting
pub mod Inserting
pub mod Landing
pub mod Stepping
pub mod Resting
