pub mod Tests
pub mod Octets
pub mod Written
pub mod Numbers
pub mod Finding
pub mod Options
pub mod Puts
