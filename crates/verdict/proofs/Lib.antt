pub mod Laws
pub mod Deciding
pub mod Tracing
pub mod Parting
pub mod Printing
pub mod Fitting
pub mod Meaning
pub mod Unique
