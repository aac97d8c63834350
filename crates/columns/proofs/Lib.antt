pub mod Decimal
pub mod Placing
mod Worked
