pub mod Publication
pub mod Adoption
