pub mod Members
pub mod Begun
pub mod Recorded
