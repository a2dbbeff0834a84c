pub mod Rounding
pub mod Unique
pub mod Surplus
