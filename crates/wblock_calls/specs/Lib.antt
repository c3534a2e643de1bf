pub mod Numbers
pub mod Texts
pub mod Refusals
pub mod Receipts
pub mod Rows
pub mod Words
pub mod Sentences
