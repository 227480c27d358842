pub mod Means
pub mod TakenBack
pub mod Carried
pub mod WrittenBack
pub mod Coincide
