pub mod Bodies
pub mod Firsts
pub mod Lookup
pub mod Outcome
pub mod Refusals
pub mod Plain
pub mod Types
pub mod Views
