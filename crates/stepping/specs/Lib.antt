pub mod Next
pub mod Rest
pub mod Promises
