pub mod Agreement
pub mod Opened
pub mod Ended
pub mod Laws
