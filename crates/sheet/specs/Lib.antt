pub mod Bits
pub mod Sheet
pub mod RoundTrip
pub mod Promises
