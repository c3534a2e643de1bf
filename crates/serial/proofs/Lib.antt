pub mod Doing
pub mod Levels
pub mod Meeting
pub mod Ending
pub mod Limits
pub mod Modes
mod Joining
pub mod Orders
pub mod Redoing
pub mod MachineProgress
pub mod Causes
pub mod Crossing
pub mod BlocksLimits
pub mod BlocksOrders
pub mod Untouched
mod Accesses
mod OverViewEnding
mod OverViewMeeting
mod Places
mod Popping
mod Reading
mod Rows
mod Stepping
mod Wishes
pub mod Walking
