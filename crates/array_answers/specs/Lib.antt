pub mod Slots
pub mod Takeovers
pub mod Whole
pub mod Failed
