pub mod Consistent
pub mod Fit
pub mod Tested
pub mod Sound
pub mod Tables
pub mod Coincide
