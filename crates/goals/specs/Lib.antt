pub mod Goals
pub mod Run
pub mod Refusals
pub mod Cases
pub mod Promises
