pub mod First
pub mod Rises
pub mod Changes
pub mod Looks
pub mod Statuses
pub mod Anchors
pub mod Pairs
pub mod Memory
