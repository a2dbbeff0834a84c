pub mod Floors
pub mod Unique
