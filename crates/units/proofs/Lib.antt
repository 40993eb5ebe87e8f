pub mod Digits
pub mod Serials
