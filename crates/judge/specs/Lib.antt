pub mod Answer
pub mod Examining
pub mod Prefix
