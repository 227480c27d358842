pub mod Packets
pub mod Coincide
