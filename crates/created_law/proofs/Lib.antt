mod Blank
mod Rows
mod Words
mod Standing
mod Made
pub mod Law
mod Settled
pub mod Left
