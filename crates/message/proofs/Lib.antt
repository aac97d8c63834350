pub mod Rows
pub mod Judging
pub mod Bringing
pub mod WholeReading
pub mod Good
pub mod InOrder
pub mod Skipping
