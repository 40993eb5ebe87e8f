pub mod Writing
pub mod Sectors
pub mod Reading
pub mod Answers
pub mod Banks
