pub mod Draws
pub mod Json
pub mod Lines
pub mod FileAnswers
pub mod Shows
