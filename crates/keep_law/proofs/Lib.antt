pub mod Slots
pub mod Law
