pub mod Views
pub mod Places
pub mod Reading
pub mod Outcome
pub mod Turns
pub mod Bodies
pub mod SharedParts
