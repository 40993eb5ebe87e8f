pub mod Outside
pub mod Told
pub mod Shelves
pub mod Views
pub mod Endings
pub mod Memory
pub mod Lines
