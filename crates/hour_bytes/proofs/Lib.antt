pub mod Hours
pub mod Unique
pub mod Fronts
