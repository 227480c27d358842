pub mod Whole
pub mod Few
pub mod Coincide
pub mod Numbers
