pub mod Tests
pub mod Coincide
