pub mod Expression
pub mod Numbers
pub mod Turns
pub mod Steps
