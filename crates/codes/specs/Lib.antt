pub mod Protocol
pub mod MessageTypes
pub mod CallStates
pub mod Attributes
