pub mod Visits
pub mod Waiting
