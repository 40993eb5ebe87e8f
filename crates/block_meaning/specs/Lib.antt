pub mod Meaning
pub mod Whole
pub mod Reading
pub mod Renewed
