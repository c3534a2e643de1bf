pub mod Boxes
pub mod Drawings
pub mod Edges
pub mod Heads
pub mod Lines
pub mod Pictures
pub mod Seats
pub mod Words
