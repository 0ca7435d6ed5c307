pub mod Refusing
pub mod Possible
pub mod Asking
pub mod Unique
