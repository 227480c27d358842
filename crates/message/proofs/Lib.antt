pub mod Bodies
pub mod Coincide
pub mod Each
pub mod Examples
pub mod Lying
