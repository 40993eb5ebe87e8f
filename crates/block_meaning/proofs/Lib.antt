pub mod Decided
pub mod Same
pub mod Renewal
pub mod Words
