pub mod CheckResults
pub mod Spaces
pub mod RuleNumbers
