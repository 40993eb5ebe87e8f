pub mod Rounds
pub mod Steps
pub mod Acks
pub mod Owed
pub mod Halts
pub mod Ends
pub mod Durable
pub mod Told
