pub mod Live
pub mod Gate
