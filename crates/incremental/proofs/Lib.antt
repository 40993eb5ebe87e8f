pub mod More
pub mod Orders
