pub mod Seen
mod Counted
mod FirstFound
mod Zeros
mod Tried
mod Packed
mod Runs
mod Ranges
