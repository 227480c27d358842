pub mod Promise
pub mod Written
