pub mod Added
mod ByName
pub mod Calls
pub mod Constants
mod Elements
pub mod Faults
mod Filling
pub mod Linked
pub mod Once
pub mod Told
pub mod Laying
mod Values
