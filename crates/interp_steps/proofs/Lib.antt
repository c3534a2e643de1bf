pub mod Walking
pub mod Holding
pub mod Acting
pub mod Controlling
pub mod Reaching
pub mod Selecting
pub mod Repeating
