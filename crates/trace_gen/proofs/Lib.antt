pub mod More
pub mod Limits
