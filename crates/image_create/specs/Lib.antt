pub mod Calls
pub mod Stops
pub mod Laid
pub mod Steps
pub mod Room
pub mod Creates
