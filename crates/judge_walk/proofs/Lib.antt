pub mod Explaining
pub mod Advancing
pub mod Refusing
pub mod Resuming
pub mod Mirror
pub mod Standing
pub mod Coincide
