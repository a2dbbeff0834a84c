pub mod Order
pub mod Laws
pub mod Accepted
pub mod Sizes
pub mod Demand3
pub mod Packed
