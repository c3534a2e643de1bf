pub mod View
pub mod ModuleView
pub mod Modules
pub mod Numbering
pub mod Readers
pub mod LimitNumbers
