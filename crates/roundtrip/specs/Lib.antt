pub mod Back
pub mod Faults
