pub mod Saying
pub mod Trying
pub mod Looking
pub mod Joining
mod Glancing
