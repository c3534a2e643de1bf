pub mod ConfigurationTyping
pub mod Laws
pub mod NextInstruction
pub mod Once
