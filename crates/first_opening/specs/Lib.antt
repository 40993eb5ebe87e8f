pub mod Opened
pub mod Copies
pub mod Worked
