pub mod Lines
pub mod Program
pub mod Meaning
pub mod BadPrograms
