pub mod Wrong
pub mod Findings
pub mod Clean
pub mod Standing
pub mod Worked
