pub mod Settings
pub mod Coincide
