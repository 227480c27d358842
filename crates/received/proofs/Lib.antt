pub mod Lying
pub mod Comparing
pub mod Rules
pub mod Coincide
pub mod Faults
pub mod Ignored
