pub mod Fuel
pub mod PositionRuns
pub mod Jobs
pub mod VerdictsFound
pub mod Trials
