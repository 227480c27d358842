pub mod Copied
pub mod Putting
pub mod Fits
pub mod Pending
pub mod Coincide
