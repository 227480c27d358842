pub mod Quiet
pub mod Coincide
