pub mod CheckResults
pub mod Names
pub mod Parts
pub mod Takes
pub mod Tests
