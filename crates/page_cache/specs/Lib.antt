pub mod Counts
pub mod Words
pub mod Runs
pub mod Starts
pub mod Blocks
pub mod Cache
pub mod Kept
