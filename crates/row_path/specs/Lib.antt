pub mod Marks
pub mod Seen
pub mod Plans
pub mod Jobs
