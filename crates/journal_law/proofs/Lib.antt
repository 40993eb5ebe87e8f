pub mod Tallies
pub mod Form
