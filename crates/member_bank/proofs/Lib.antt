pub mod Laying
pub mod Showing
pub mod Notes
pub mod Faults
