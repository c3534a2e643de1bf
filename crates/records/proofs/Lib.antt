pub mod Items
mod Neighbours
pub mod Numbers
mod Positions
mod Profiles
pub mod Steps
mod Values
