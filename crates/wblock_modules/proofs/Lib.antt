mod Behind
mod FlatObjects
mod Onto
mod Reading
mod BadTokens
mod Unread
