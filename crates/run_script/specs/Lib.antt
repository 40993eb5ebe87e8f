pub mod Numbers
pub mod Forms
pub mod Grammar
pub mod Limits
pub mod Within
pub mod Pieces
pub mod Scripts
pub mod FirstWrong
