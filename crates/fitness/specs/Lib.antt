pub mod Fitness
pub mod Tables
