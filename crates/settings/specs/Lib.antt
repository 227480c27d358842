pub mod Lines
pub mod Settings
