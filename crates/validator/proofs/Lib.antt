pub mod Agreeing
pub mod Crossing
pub mod Ends
pub mod Fits
pub mod Runs
