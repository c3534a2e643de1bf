pub mod Kinds
pub mod Names
pub mod Lines
pub mod ModuleText
pub mod WorldText
pub mod Listings
pub mod Shows
