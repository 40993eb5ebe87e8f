mod Filling
mod Placing
mod Judged
mod Followed
pub mod Told
mod Looked
pub mod Standing
