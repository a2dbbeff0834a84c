pub mod Weights
pub mod Unique
