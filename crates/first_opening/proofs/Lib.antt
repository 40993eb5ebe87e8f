pub mod Behind
pub mod Numbers
pub mod Records
pub mod Found
pub mod Volume
pub mod Slots
pub mod Copies
pub mod Asked
