pub mod Listed
pub mod Slots
pub mod Counted
pub mod Merged
mod Positions
mod Place
