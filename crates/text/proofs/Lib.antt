pub mod Spelling
pub mod Numbers
pub mod Places
pub mod Parting
pub mod Putting
pub mod Back
pub mod Coincide
