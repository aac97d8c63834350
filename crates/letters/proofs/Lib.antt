pub mod Alphabet
pub mod Standing
pub mod Alphabetic
pub mod Lengths
pub mod RoundTrip
pub mod Worked
