pub mod Lists
pub mod Leading
pub mod Paired
pub mod Exclusive
