pub mod Names
pub mod Limits
pub mod Numerals
pub mod Asked
pub mod Grammar
pub mod Made
