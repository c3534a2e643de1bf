pub mod Numbers
pub mod Profiles
pub mod Stages
pub mod Sums
mod Latest
mod BlockStatements
