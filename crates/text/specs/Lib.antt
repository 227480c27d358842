pub mod Hex
pub mod Decimal
pub mod Words
pub mod Output
