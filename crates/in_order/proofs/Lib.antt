pub mod Crossing
pub mod Shares
pub mod OneMore
