pub mod Coincide
pub mod Names
pub mod Turns
