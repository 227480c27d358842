pub mod Events
pub mod Reasons
pub mod Talk
pub mod Step
pub mod Due
pub mod Sets
pub mod Waiting
