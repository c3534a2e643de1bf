pub mod Asks
pub mod Debugs
pub mod Lines
pub mod Prints
pub mod StatesJson
pub mod Tells
