pub mod Places
pub mod Telling
pub mod Stepping
pub mod Commenting
pub mod Skipping
pub mod Quoting
pub mod Worked
