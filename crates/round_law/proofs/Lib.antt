pub mod Facts
pub mod Law
pub mod Containers
pub mod Endings
pub mod Renewed
