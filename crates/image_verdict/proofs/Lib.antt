pub mod Pieces
pub mod Reading
pub mod Tables
pub mod Held
pub mod Reported
