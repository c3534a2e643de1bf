pub mod SessionView
pub mod Breaks
pub mod Commands
pub mod Undoing
pub mod Cursors
pub mod Keeping
