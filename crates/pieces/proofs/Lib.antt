pub mod Pieces
pub mod Joined
