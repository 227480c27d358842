pub mod Coincide
pub mod Verdicts
