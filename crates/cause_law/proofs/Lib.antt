pub mod States
pub mod Courses
pub mod Recorded
pub mod Answered
pub mod Law
pub mod Short
