pub mod Written
pub mod Taken
pub mod Ended
pub mod Lined
