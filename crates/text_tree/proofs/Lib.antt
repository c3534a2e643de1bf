pub mod Strings
pub mod Readers
pub mod Exports
pub mod Plain
pub mod Bodied
pub mod Late
pub mod Halves
