pub mod Latest
pub mod Judging
pub mod Marks
pub mod Meeting
