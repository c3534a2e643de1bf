pub mod Putting
pub mod Memory
