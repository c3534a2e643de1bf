pub mod Segments
mod Asking
pub mod Entering
mod Finding
mod Standing
