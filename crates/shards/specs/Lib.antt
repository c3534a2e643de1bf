pub mod Marks
pub mod Shards
pub mod Taking
pub mod SharedBookTaking
