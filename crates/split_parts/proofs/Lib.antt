pub mod Parts
pub mod Places
pub mod Quotients
pub mod Unique
