pub mod Coincide
pub mod Laws
pub mod Steps
pub mod Older
