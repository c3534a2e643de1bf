mod AtIndex
mod Lines
mod Places
