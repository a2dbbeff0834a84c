pub mod Content
pub mod Unique
