pub mod Colons
pub mod Lists
pub mod Spots
