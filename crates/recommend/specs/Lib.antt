pub mod Recommending
