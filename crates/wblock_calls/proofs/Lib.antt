pub mod TextLemmas
pub mod WordLemmas
pub mod LineLemmas
pub mod Beginning
