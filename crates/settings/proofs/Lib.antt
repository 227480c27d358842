pub mod Coincide
pub mod Feed
pub mod Lines
pub mod Missing
pub mod Walk
