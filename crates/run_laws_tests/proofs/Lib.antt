pub mod TwoWorkers
mod Reused
pub mod Slips
pub mod Broken
pub mod Missing
