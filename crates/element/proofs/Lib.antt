pub mod Elements
pub mod Counting
pub mod Coincide
