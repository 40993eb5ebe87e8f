pub mod Images
pub mod Text
pub mod Reports
pub mod Endings
