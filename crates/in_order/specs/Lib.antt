pub mod Progress
pub mod Shares
pub mod Queues
