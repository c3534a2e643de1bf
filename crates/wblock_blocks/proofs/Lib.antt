mod FlatObjects
mod Notes
mod Rejected
mod Silent
