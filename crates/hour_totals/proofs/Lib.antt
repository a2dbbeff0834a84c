pub mod Added
pub mod Sizes
pub mod Unique
