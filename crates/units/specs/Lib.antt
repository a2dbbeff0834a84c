pub mod Units
pub mod Inside
pub mod Cases
