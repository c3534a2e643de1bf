mod Refusing
mod Rejecting
