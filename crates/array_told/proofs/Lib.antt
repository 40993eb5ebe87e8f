pub mod Moments
pub mod Stamps
pub mod Tells
