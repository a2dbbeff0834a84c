pub mod Ascii
pub mod Decimal
pub mod Inside
pub mod Cases
