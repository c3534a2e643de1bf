pub mod Exact
pub mod Positions
pub mod Profiles
pub mod Reading
pub mod Values
