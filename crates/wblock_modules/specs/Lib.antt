pub mod Assembles
pub mod Checks
pub mod Deploys
pub mod Objects
pub mod Texts
