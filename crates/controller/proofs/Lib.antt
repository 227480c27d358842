pub mod Coincide
pub mod Hosted
pub mod Refusing
