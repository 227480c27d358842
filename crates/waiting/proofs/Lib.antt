pub mod Run
pub mod Always
pub mod Channel
pub mod Waiting
pub mod Cases
pub mod Sharp
