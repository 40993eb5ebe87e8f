pub mod Items
pub mod Stripes
pub mod Placed
pub mod Rows
pub mod Xor
