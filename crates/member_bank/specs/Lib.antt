pub mod Told
pub mod Faults
pub mod Contents
pub mod History
pub mod Memory
pub mod FailFree
pub mod Files
