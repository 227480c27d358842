pub mod Back
pub mod Bits
pub mod Coincide
pub mod Protocols
