pub mod Begins
pub mod Book
pub mod Seen
pub mod Events
pub mod Rounds
pub mod Controls
pub mod Still
