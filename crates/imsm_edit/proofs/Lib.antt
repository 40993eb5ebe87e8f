pub mod Changes
pub mod Told
pub mod Opened
pub mod Marking
pub mod Marked
pub mod Started
pub mod Lost
