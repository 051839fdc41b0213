pub mod Words
pub mod Rows
pub mod SweptRows
pub mod ProfileRows
pub mod CachedRows
