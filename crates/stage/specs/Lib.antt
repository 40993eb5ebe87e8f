pub mod Runs
pub mod Asked
pub mod Stages
pub mod Opens
pub mod Ends
pub mod Drives
pub mod Causes
pub mod Turns
