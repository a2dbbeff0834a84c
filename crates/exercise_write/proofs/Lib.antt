pub mod Stores
pub mod Ready
pub mod Unique
