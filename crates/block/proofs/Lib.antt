mod Digests
mod Exact
mod Told
