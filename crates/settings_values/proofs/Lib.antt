pub mod Coincide
pub mod Digits
pub mod Values
