pub mod Bodies
pub mod Constants
pub mod Decides
pub mod Exported
pub mod Gathered
pub mod Kept
mod Stacks
