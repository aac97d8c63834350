pub mod RoundTrip
pub mod Standing
