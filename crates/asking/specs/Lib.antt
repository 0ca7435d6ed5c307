pub mod Asked
pub mod Promises
