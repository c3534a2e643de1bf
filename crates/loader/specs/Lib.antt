pub mod Refusals
pub mod Tail
