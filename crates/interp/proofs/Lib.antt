pub mod Progress
pub mod Opened
pub mod Outlook
mod LeftNext
pub mod Unfuelled
pub mod Bodies
pub mod OuterLevel
pub mod Fresh
pub mod Among
pub mod Turning
pub mod Asking
pub mod Beginning
pub mod Showing
pub mod Copying
pub mod Wanting
pub mod Stepping
pub mod Around
pub mod Leaving
pub mod Counting
pub mod Wishing
pub mod Pushing
pub mod Outermost
pub mod Telling
pub mod Striding
mod Chaining
