pub mod States
pub mod Turning
pub mod Undoing
pub mod Keeping
pub mod Spacing
pub mod Places
mod Finding
mod Untouched
