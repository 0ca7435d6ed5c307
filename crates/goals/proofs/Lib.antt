pub mod Unique
pub mod Worked
