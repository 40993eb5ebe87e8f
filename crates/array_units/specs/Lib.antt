pub mod Passes
pub mod EditUnits
pub mod Counted
pub mod Seats
pub mod Rests
