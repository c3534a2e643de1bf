pub mod Sentences
pub mod Rows
pub mod Names
pub mod Parts
