pub mod Handing
pub mod Numbering
mod Worked
