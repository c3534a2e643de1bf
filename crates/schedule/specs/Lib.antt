pub mod Board
pub mod Graph
pub mod Turns
pub mod Waves
