pub mod Living
pub mod Kept
pub mod Turning
