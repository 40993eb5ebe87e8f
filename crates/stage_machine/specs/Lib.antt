pub mod Setting
pub mod Rounds
pub mod States
pub mod Jobs
pub mod Machine
pub mod Worked
pub mod Opens
pub mod EachRun
