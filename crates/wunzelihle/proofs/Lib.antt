pub mod Loads
pub mod Unique
pub mod InsideDemands
pub mod Demands
