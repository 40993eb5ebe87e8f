pub mod Firsts
pub mod Lined
