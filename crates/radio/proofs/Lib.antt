pub mod Numbers
pub mod Range
pub mod Reacting
pub mod Answers
pub mod Reasons
pub mod Messages
pub mod Coincide
