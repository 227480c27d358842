pub mod Calls
pub mod Coincide
