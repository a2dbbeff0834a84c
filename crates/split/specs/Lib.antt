pub mod Split
pub mod Fair
pub mod Inside
pub mod Cases
