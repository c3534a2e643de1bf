pub mod Groups
pub mod Orders
pub mod Rises
pub mod Dealt
pub mod Steps
pub mod Places
