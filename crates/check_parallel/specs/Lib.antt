pub mod Verdicts
pub mod Seating
pub mod Homes
pub mod Parts
