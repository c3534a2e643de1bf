mod WorldBytes
mod CellCounts
mod Exact
mod Judging
mod Parts
mod Spelled
mod Storing
mod Worlds
pub mod Copies
