pub mod Views
pub mod Places
pub mod Order
pub mod Texts
pub mod Reading
