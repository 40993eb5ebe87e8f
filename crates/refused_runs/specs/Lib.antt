pub mod Admitted
pub mod Wrong
