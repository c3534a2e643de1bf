pub mod Timetables
pub mod SmallBlocks
pub mod CallsWorked
