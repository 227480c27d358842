pub mod Every
pub mod Types
pub mod Sound
pub mod Effects
pub mod Decided
pub mod InState
