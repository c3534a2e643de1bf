pub mod FlatEffects
