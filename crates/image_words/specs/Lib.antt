pub mod Words
pub mod Args
