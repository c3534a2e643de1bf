pub mod Answering
pub mod Asking
pub mod Planning
pub mod Reading
pub mod Running
pub mod Standing
