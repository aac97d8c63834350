pub mod OwnField
pub mod Accepting
