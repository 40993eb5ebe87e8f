pub mod Steps
pub mod ClientOrder
pub mod UpdateOrder
pub mod Runs
