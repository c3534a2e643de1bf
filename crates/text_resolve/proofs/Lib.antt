pub mod Alike
pub mod Bodied
pub mod Lookups
pub mod Numbers
pub mod Plains
pub mod Standing
pub mod Turns
