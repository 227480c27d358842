pub mod Received
pub mod Due
pub mod Ignored
