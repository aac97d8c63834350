pub mod Placing
pub mod Writing
pub mod Halves
pub mod Putting
pub mod Room
pub mod Applying
pub mod Kept
