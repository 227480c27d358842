pub mod Writing
pub mod Bodies
