pub mod Version
pub mod Split
pub mod Load
pub mod Cases
