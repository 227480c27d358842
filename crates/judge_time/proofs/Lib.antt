pub mod Ticking
pub mod Coincide
