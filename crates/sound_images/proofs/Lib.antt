pub mod Disks
pub mod Serials
pub mod Checks
pub mod Meaning
pub mod Stopped
pub mod Alike
