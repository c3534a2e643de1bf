mod Rows
pub mod Bytes
