pub mod Images
pub mod Contents
pub mod Numbers
pub mod Found
