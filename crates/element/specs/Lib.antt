pub mod Elements
pub mod Counted
