pub mod Runs
pub mod Grouped
pub mod Named
