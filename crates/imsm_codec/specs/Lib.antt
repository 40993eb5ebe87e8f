pub mod Laid
pub mod Mpb
pub mod Given
pub mod Table
pub mod Checked
pub mod Own
pub mod Faults
