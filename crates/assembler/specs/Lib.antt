pub mod FunctionCounts
pub mod ModuleParts
pub mod NamedModules
pub mod PartsView
pub mod OfFields
pub mod ListsView
