pub mod Splits
pub mod SmallFacts
pub mod Written
pub mod SmallKeeps
pub mod SmallVolumes
pub mod Journals
pub mod Steps
pub mod Alike
