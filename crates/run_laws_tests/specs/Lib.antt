pub mod TwoWorkers
pub mod Slips
pub mod Refusals
