pub mod Running
pub mod Accepted
pub mod Meaning
pub mod Worked
pub mod Reading
pub mod BadPrograms
