pub mod Linear
pub mod Pieces
pub mod Runs
pub mod Start
