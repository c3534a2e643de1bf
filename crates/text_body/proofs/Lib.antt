pub mod Repeats
pub mod Pieces
pub mod Rests
pub mod Halfway
pub mod OneBody
pub mod Sharing
