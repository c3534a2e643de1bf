pub mod Crossing
mod Levels
mod Strays
mod Takings
pub mod SharedBookCrossing
mod SharedBookTakings
