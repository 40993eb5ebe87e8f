pub mod Cut
pub mod Joined
pub mod Apart
pub mod At
pub mod Spliced
pub mod Edited
pub mod Sealed
