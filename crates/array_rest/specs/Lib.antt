pub mod Rests
pub mod Between
pub mod Round
pub mod Seats
pub mod Jobs
pub mod Small
