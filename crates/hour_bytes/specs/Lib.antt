pub mod Inside
pub mod Cases
