pub mod Reply
pub mod Put
