pub mod Blocked
pub mod Steps
