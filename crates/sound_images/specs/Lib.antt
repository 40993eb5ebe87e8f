pub mod Images
pub mod Volumes
pub mod Rows
pub mod Sound
pub mod Keeps
pub mod Small
