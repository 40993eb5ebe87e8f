pub mod Members
pub mod Rows
pub mod Words
pub mod Reasons
