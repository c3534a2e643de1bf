pub mod Maps
pub mod ModuleWalks
pub mod Sizes
pub mod Walks
pub mod OneInstr
pub mod Nodes
