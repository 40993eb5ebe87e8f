mod Unread
mod Needs
mod Sums
mod Losses
