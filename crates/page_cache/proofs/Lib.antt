pub mod Bits
pub mod Sums
pub mod WordRuns
pub mod Pages
