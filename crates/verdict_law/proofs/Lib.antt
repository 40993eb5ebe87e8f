mod Stands
mod Held
mod Entries
mod Volumes
pub mod Opened
pub mod Ready
