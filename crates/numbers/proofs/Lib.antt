pub mod Sign
pub mod Words
pub mod Laws
pub mod Lists
pub mod Unique
