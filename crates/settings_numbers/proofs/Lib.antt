pub mod Coincide
pub mod Taken
