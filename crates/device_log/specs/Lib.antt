pub mod Log
pub mod Cells
