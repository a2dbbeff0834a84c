pub mod Statement
pub mod Inside
pub mod Cases
