pub mod Leaves
pub mod Scripts
pub mod Held
pub mod Printed
pub mod Pieces
