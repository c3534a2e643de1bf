pub mod Shard
pub mod Parts
pub mod Places
pub mod Steps
pub mod Journals
