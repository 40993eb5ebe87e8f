pub mod Fits
pub mod Created
pub mod Numbered
pub mod Fresh
pub mod Example
