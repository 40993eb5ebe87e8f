pub mod SmallBlocks
pub mod SmallEdits
pub mod SmallSettings
pub mod Runs
pub mod Containers
pub mod Scripts
