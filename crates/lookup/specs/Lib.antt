pub mod Looking
pub mod Held
