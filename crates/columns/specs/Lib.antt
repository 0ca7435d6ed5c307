pub mod Calls
pub mod Tables
pub mod Core
