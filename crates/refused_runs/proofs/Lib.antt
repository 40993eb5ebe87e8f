pub mod Runs
pub mod Last
