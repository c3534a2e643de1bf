pub mod Chains
pub mod Counting
pub mod Figures
pub mod Hottest
pub mod Outcomes
pub mod Turns
pub mod Words
pub mod Names
