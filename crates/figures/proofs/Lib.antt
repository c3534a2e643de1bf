mod Counts
mod Hot
mod KindSteps
mod Numbers
mod Profiles
mod Steps
mod Tops
mod Counting
