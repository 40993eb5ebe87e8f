pub mod Twins
pub mod Wholeness
pub mod Faulty
pub mod Places
pub mod Found
pub mod Mirror
pub mod Laying
pub mod Exact
