pub mod States
pub mod Whole
pub mod Chosen
pub mod Coincide
