pub mod Found
pub mod Small
