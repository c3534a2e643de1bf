mod Heaps
pub mod Noting
pub mod Numbers
mod Saying
pub mod Asked
pub mod Lines
pub mod Next
pub mod Showing
