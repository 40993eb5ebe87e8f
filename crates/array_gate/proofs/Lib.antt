pub mod Dirty
pub mod Writers
pub mod Entries
pub mod Gate
