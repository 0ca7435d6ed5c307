pub mod Prints
pub mod Core
