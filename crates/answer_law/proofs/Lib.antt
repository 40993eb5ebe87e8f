pub mod Order
pub mod JobKinds
pub mod Locks
pub mod Rows
pub mod Values
pub mod Law
pub mod Runs
