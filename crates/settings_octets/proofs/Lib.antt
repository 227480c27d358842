pub mod Back
pub mod Coincide
