pub mod Layouts
pub mod Small
pub mod Mapped
