mod Telling
mod Counting
pub mod Unfolding
mod LineByLine
pub mod Stepping
pub mod Fields
pub mod Values
mod Reporting
pub mod InFront
pub mod LineEndings
mod Worked
