pub mod Logs
pub mod SweptLast
pub mod SetNumbers
pub mod Entries
