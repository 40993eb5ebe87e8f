pub mod Examined
