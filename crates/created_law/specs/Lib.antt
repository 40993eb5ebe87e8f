pub mod OnBank
pub mod Example
