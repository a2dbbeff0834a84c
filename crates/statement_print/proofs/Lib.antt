pub mod Hours
pub mod Unique
