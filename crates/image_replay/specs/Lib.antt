pub mod Lines
pub mod Ends
pub mod Runs
pub mod Replays
pub mod Pieces
