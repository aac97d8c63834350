pub mod Surveying
pub mod Recommending
pub mod Range
pub mod SameEntries
