pub mod Hosting
pub mod Numbering
