pub mod Texts
pub mod Senders
pub mod Reports
pub mod Dates
pub mod Worked
