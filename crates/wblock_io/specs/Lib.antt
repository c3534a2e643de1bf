pub mod RemainingLines
pub mod Holding
pub mod Lines
pub mod Log
