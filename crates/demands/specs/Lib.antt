pub mod Calls
pub mod Ordered
pub mod Demands
pub mod Worked
pub mod BadVersions
