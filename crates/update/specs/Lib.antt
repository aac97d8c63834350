pub mod Update
pub mod Message
