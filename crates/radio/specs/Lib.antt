pub mod Step
pub mod Messages
