pub mod Laying
pub mod Records
pub mod Passes
pub mod RealEdits
pub mod Formed
pub mod RealSettings
pub mod Examples
