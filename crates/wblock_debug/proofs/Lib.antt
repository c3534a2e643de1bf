mod FlatStates
mod Options
mod Printing
mod Telling
mod Fuels
mod PrefixSums
mod Prefixes
