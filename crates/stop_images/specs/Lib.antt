pub mod Left
pub mod Candidates
pub mod Small
