pub mod Again
pub mod Typing
pub mod Making
pub mod Laying
pub mod Worked
