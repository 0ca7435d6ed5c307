pub mod Core
pub mod Laws
pub mod Calling
pub mod Loading
pub mod Unique
