pub mod Answered
pub mod Plans
pub mod Replies
pub mod Requests
pub mod Sessions
pub mod Words
