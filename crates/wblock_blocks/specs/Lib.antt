pub mod Mines
pub mod Notes
pub mod Objects
pub mod Texts
pub mod Validates
