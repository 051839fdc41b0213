pub mod Asks
pub mod Fits
pub mod Looking
pub mod Numbers
pub mod Pushing
pub mod Resetting
pub mod Sweeping
pub mod Tallies
