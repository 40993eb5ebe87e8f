pub mod Clear
pub mod Cut
pub mod Spelled
pub mod Names
pub mod Told
pub mod Tells
