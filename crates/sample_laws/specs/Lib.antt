pub mod By
pub mod Countdowns
pub mod Numbers
pub mod Counted
