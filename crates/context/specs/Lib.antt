pub mod States
pub mod Talk
pub mod Remembered
pub mod Context
pub mod Running
