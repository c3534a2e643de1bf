mod AtIndex
pub mod Flat
pub mod FlatBlocks
mod FlatModules
mod FlatRefusals
mod Fronts
mod Listed
mod Places
mod Steps
