pub mod WorldDigest
pub mod Views
pub mod Cells
pub mod Reading
