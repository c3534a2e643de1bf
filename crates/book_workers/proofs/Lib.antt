pub mod Crossing
pub mod Runs
mod Totals
mod Turns
mod Keeps
mod Cuts
mod Joins
mod Pools
mod Closes
