pub mod Content
pub mod Tables
pub mod Reading
pub mod Answers
