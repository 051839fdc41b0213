pub mod Asks
pub mod Blocks
pub mod Fits
pub mod Pops
pub mod Resets
pub mod Sets
pub mod Sweeps
pub mod Tallies
