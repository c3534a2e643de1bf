pub mod Blocks
pub mod Json
pub mod Modules
pub mod Refusals
pub mod Worlds
