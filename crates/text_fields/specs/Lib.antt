pub mod AddedTypes
pub mod NameLists
pub mod PartView
pub mod Parts
