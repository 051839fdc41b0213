pub mod Runs
pub mod Sums
pub mod Places
pub mod SumLaws
