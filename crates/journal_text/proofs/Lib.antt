pub mod Repeated
pub mod Cut
pub mod Plain
pub mod Told
pub mod Apart
