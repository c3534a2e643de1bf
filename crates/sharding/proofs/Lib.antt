mod Rising
mod Tickets
mod Waiting
mod Gathering
mod Moving
mod Together
mod Walks
pub mod Standings
pub mod Events
