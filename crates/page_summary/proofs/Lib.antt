pub mod Joins
pub mod Walks
pub mod Blocks
