pub mod Drawn
pub mod ByKind
pub mod RoundTrip
pub mod Again
pub mod Faults
pub mod Answers
