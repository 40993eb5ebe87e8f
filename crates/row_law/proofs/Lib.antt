pub mod Places
pub mod Stays
pub mod Jobs
pub mod Answers
pub mod UnderWay
pub mod Causes
