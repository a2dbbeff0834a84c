pub mod Bytes
pub mod Inside
pub mod Cases
pub mod Lists
