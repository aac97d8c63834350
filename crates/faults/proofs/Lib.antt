pub mod Laying
pub mod Counting
pub mod Putting
pub mod Found
pub mod Rising
pub mod Once
