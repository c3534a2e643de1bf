pub mod Globals
pub mod States
pub mod AskFunctions
pub mod Views
