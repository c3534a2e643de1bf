mod Fronts
mod Named
mod Sections
mod Maps
