pub mod Adding
pub mod Parts
pub mod Printed
pub mod Rising
pub mod Scenes
