mod Beginning
mod FlatObjects
mod Leaving
mod Saying
mod Splitting
