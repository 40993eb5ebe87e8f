pub mod Meanings
pub mod Passes
pub mod Slots
pub mod Failures
