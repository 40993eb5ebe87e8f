pub mod Views
pub mod Questions
pub mod Faults
