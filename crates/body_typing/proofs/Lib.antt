pub mod Blocks
pub mod Imports
pub mod Leaves
pub mod NoneKnown
