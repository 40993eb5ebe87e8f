pub mod Seen
pub mod Lacking
pub mod Roles
pub mod Volumes
pub mod Views
pub mod Verdicts
pub mod Steps
