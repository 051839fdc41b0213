pub mod Puts
pub mod Kept
pub mod Room
