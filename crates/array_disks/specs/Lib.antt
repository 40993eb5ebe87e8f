pub mod Held
pub mod Calls
pub mod Brought
pub mod Changes
pub mod Marks
