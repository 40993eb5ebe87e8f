pub mod Pushed
pub mod Whole
pub mod Fresh
pub mod Started
