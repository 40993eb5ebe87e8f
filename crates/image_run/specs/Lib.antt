pub mod Lines
pub mod Openings
pub mod Scripts
pub mod Outside
pub mod Requests
pub mod Does
pub mod Runs
