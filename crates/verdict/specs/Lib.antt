pub mod Table
pub mod Entries
pub mod Judge
pub mod Demand
pub mod Formed
pub mod Host
pub mod Start
