pub mod Markets
pub mod Unique
