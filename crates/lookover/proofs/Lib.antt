pub mod Validity
pub mod Few
pub mod Owners
pub mod Judging
pub mod Walking
