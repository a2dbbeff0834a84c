pub mod Load
pub mod Given
pub mod Order
pub mod Fair
pub mod InsideTable
pub mod Inside
pub mod Cases
pub mod CasesOrder
