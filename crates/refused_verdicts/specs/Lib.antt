pub mod Told
pub mod Wrong
pub mod Arrivals
pub mod Mirror
