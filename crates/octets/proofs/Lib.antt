pub mod Choice
pub mod Coincide
pub mod Listed
pub mod Rows
pub mod Stores
