pub mod Decoded
pub mod Added
pub mod Priced
pub mod Total
pub mod Stretches
pub mod Unique
