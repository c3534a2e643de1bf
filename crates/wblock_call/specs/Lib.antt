pub mod Calling
pub mod Effects
pub mod EffectsJson
pub mod Styles
