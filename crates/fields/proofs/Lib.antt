pub mod Values
pub mod Finding
pub mod Walking
pub mod Single
