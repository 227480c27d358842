pub mod Heads
pub mod Bodies
pub mod Fitting
pub mod Coincide
