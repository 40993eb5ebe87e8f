pub mod Spares
pub mod RealDisks
pub mod Opens
pub mod Banks
pub mod NewBanks
pub mod Worked
pub mod Sound
pub mod Refused
