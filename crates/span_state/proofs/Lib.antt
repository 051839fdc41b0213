pub mod Added
pub mod Indices
pub mod Pairs
pub mod RowWords
pub mod Sweeps
pub mod Table
pub mod Words
