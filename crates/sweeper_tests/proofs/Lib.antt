pub mod Handing
pub mod Meeting
pub mod Ready
