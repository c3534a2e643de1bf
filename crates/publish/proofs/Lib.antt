pub mod Limits
pub mod Marks
pub mod Keeping
pub mod Sweeping
pub mod OneSweep
pub mod Walking
